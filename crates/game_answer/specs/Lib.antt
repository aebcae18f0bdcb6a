pub mod Telling
pub mod Arranging
