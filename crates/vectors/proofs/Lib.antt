-- The laws of vectors.
pub mod Laws
pub mod Parts
pub mod Texts
pub mod Sums
pub mod Rising
pub mod Places
