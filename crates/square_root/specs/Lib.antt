-- The definitions that the contracts of square_root cite.
pub mod Sqrt
pub mod Parts
pub mod Nearest
