pub mod Literals
pub mod Records
pub mod Lookups
pub mod WellFormed
pub mod Places
