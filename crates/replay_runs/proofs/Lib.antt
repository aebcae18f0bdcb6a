pub mod Running
pub mod Noting
