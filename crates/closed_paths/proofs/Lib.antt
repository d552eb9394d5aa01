-- The laws of closed_paths.
pub mod Areas
