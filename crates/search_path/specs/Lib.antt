-- The definitions that the contracts of search_path cite.
pub mod Search
