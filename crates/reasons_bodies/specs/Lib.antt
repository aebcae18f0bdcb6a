pub mod Blames
pub mod Turns
