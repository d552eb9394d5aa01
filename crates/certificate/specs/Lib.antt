-- The definitions that the contracts of certificate cite.
pub mod Certificate
pub mod Run
pub mod Ready
