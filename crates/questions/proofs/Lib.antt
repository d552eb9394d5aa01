-- The laws of questions.
pub mod Laws
pub mod Refusals
pub mod Beforehand
