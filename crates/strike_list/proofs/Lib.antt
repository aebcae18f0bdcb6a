pub mod Orders
pub mod Named
pub mod Records
pub mod Gathering
