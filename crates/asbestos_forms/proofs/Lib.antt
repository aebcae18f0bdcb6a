pub mod Printed
pub mod Sizes
pub mod Accepted
pub mod Examples
