pub mod Laws
pub mod Shapes
pub mod Numbers
pub mod Printing
