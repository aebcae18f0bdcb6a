pub mod First
pub mod Stands
pub mod Laws
