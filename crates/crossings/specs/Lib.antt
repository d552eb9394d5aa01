-- The definitions that the contracts of crossings cite.
pub mod Refusals
pub mod Crossings
pub mod Nearest
pub mod Passing
