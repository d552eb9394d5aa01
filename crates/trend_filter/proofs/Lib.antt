-- The laws of trend_filter.
pub mod Calling
pub mod Laws
