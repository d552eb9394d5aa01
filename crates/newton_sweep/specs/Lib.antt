-- The definitions that the contracts of newton_sweep cite.
pub mod Swept
