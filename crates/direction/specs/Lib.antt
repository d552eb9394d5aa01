-- The definitions that the contracts of direction cite.
pub mod Direction
pub mod Places
