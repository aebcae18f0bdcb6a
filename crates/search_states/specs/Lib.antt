pub mod States
pub mod Rising
pub mod Listed
