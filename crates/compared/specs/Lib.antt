-- Outcomes, and whether they are the stored ones; apart, what the code inside cites.
pub mod Outcomes
pub mod Inner
