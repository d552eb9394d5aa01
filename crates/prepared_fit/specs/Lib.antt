-- The definitions that the contracts of prepared_fit cite.
pub mod Begun
pub mod Fitted
