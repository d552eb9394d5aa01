-- The definitions that the contracts of substitution cite.
pub mod Solved
