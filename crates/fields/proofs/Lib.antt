-- Laws of digits and of writers.
mod Decimals
pub mod Writers
