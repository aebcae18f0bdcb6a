pub mod Objects
pub mod Meetings
