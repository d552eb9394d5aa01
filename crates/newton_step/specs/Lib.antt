-- The definitions that the contracts of newton_step cite.
pub mod Stepped
