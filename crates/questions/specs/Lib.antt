-- The definitions that the contracts of questions cite.
pub mod Needs
pub mod Questions
pub mod Refusals
pub mod Asking
pub mod Groups
pub mod Beforehand
