pub mod Codes
pub mod Cells
pub mod Calls
pub mod Ranges
