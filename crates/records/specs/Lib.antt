-- What the records of a week say, and the questions over them; apart, what the code's own contracts cite.
pub mod Entries
pub mod Corrections
pub mod Rates
pub mod Week
pub mod Positions
pub mod Inner
