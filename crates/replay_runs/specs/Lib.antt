pub mod Replies
pub mod Endings
