pub mod Curing
pub mod Soonest
