-- The laws of a row of the Newton system.
pub mod Places
