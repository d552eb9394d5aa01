-- The search over any problem, and what is promised of it.
pub mod Reasons
pub mod Search
pub mod Bounds
pub mod Demand3
pub mod Looser
