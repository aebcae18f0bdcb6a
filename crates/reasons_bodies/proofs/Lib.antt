pub mod Orders
pub mod Picking
pub mod Turning
pub mod Blaming
