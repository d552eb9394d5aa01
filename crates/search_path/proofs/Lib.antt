-- The laws of search_path.
pub mod Kept
pub mod Areas
