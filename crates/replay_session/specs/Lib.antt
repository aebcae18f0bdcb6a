pub mod Replays
pub mod Notes
pub mod Sessions
pub mod Records
