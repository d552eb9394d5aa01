-- The definitions that the contracts of differences cite.
pub mod Diff
pub mod Ends
pub mod Series
