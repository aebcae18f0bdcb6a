pub mod States
pub mod Numbers
pub mod Ordering
pub mod Laws
pub mod Settled
