pub mod Numerals
pub mod Forms
pub mod Writing
