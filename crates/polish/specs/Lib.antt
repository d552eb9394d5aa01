-- The definitions that the contracts of polish cite.
pub mod Polish
pub mod Places
