-- The definitions that the contracts of decomposition cite.
pub mod Knots
pub mod Written
