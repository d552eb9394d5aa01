-- How numbers are printed, and what a writer promises.
pub mod Fields
pub mod Puts
