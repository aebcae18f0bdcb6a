pub mod Worth
pub mod Judging
