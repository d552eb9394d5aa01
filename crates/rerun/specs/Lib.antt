-- Stored cases, and whether the fit gives what is stored.
pub mod Cases
