pub mod Bytes
pub mod Forms
pub mod Shapes
pub mod Declarations
pub mod Words
pub mod Rows
pub mod Models
pub mod Texts
