pub mod Handins
pub mod Answers
