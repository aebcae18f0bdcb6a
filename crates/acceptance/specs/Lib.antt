pub mod Sound
pub mod Represents
pub mod Growing
