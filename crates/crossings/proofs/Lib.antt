-- The laws of crossings.
mod Listing
pub mod Nearest
pub mod Passing
