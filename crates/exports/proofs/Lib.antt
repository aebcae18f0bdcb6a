pub mod Cells
pub mod Fitting
pub mod Beside
pub mod Refusals
pub mod Parts
