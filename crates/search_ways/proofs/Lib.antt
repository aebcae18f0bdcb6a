pub mod Marking
pub mod Table
pub mod Stepping
pub mod Closing
pub mod Laws
pub mod Nearest
