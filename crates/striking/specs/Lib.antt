pub mod Striking
pub mod Numbers
