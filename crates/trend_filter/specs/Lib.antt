-- The definitions that the contracts of trend_filter cite.
pub mod Answers
pub mod Calls
pub mod Told
pub mod Needs
pub mod Crossings
