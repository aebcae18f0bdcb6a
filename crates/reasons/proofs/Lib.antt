pub mod Laws
pub mod Steps
pub mod Meetings
pub mod Places
pub mod Ranges
