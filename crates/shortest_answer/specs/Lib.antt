pub mod Answering
pub mod Ending
