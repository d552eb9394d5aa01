-- Laws of a dual point in a run.
pub mod Points
pub mod Known
