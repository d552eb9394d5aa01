-- The definitions that the contracts of elimination cite.
pub mod Decomposed
pub mod Next
