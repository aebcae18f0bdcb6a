pub mod Laws
pub mod Entering
pub mod Collecting
pub mod Stages
