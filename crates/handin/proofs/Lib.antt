pub mod Laws
pub mod Runs
pub mod Printing
pub mod Sizes
pub mod Examples
