pub mod Scans
pub mod Laws
pub mod Settled
