-- The laws of differences.
pub mod Laws
pub mod Gram
