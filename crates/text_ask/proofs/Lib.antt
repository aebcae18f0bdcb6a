pub mod Laws
pub mod Ending
pub mod Represented
pub mod Missing
