pub mod Said
pub mod Unique
