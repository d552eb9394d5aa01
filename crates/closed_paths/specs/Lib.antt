-- The definitions that the contracts of closed_paths cite.
pub mod Trends
pub mod Taken
