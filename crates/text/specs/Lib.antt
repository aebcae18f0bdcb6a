pub mod Reading
pub mod Reached
