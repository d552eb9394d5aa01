-- Laws of entries, of their positions, of corrections, of rates, of a walk over the entries, and of the questions.
pub mod Entries
pub mod Positions
pub mod Corrections
pub mod Rates
pub mod Passing
pub mod Asking
mod Known
