pub mod Relations
pub mod Fitting
pub mod Carrying
pub mod Effects
pub mod Answers
pub mod Noting
