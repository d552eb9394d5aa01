-- The definitions that the contracts of gram cite.
pub mod Gram
pub mod Prepared
