-- The laws of the sweep over the rows of the Newton system.
pub mod Sweeps
pub mod Inner
