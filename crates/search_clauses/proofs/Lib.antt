pub mod Laws
pub mod Clauses
pub mod Marks
