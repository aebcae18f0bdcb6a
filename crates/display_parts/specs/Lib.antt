pub mod Parts
pub mod Closes
pub mod Placed
