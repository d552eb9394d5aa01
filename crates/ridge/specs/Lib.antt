-- The definitions that the contracts of ridge cite.
pub mod Ridge
pub mod Layout
