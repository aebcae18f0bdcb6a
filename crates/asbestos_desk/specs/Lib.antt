pub mod Promise
pub mod Codes
