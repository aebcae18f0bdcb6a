pub mod Seats
pub mod Laws
pub mod Sorting
pub mod Listed
