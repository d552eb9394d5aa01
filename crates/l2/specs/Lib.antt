-- The definitions that the contracts of l2 cite.
pub mod L2
pub mod Solved
