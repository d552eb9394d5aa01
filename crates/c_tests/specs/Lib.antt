-- The definitions that the contracts of c_tests cite.
pub mod Answered
