pub mod Explains
