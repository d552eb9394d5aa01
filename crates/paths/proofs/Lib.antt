-- The laws of paths.
pub mod Ways
