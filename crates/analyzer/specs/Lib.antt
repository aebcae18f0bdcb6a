pub mod Analyzing
