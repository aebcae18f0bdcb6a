pub mod Inverse
pub mod Words
pub mod Laws
