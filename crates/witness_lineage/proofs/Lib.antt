pub mod Laws
pub mod Births
pub mod Making
