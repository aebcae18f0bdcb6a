pub mod From
pub mod Standing
