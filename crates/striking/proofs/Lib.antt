pub mod Striking
pub mod Choices
pub mod Numbers
pub mod Cases
