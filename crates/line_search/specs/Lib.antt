-- The definitions that the contracts of line_search cite.
pub mod LineSearch
pub mod Places
