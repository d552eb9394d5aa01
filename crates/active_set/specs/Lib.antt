-- The definitions that the contracts of active_set cite.
pub mod ActiveSet
pub mod Marks
