pub mod Looking
pub mod Putting
pub mod Following
