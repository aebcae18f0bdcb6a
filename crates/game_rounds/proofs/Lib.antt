pub mod Slots
pub mod Turning
pub mod Numbers
pub mod Ranges
