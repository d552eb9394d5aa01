-- The definitions that the contracts of newton_system cite.
pub mod Newton
pub mod Rows
