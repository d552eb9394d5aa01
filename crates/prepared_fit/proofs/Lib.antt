-- The laws of prepared_fit.
pub mod Laws
