-- The definitions that the contracts of float64 cite.
pub mod Ops
pub mod Helpers
pub mod Units
