-- The words that every later crate uses.
pub mod Vec
pub mod Sums
pub mod Parts
pub mod Rising
