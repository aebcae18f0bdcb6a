pub mod Tallying
pub mod Ones
