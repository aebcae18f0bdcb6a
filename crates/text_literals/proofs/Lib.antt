pub mod Laws
pub mod Placing
pub mod Adding
