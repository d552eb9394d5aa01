-- Laws of fractions, of one division, of overruns, of what is a number and of the nearest double, and a table of known overruns.
pub mod Fractions
pub mod Division
pub mod Overruns
pub mod Numbers
pub mod Nearest
pub mod Meaning
mod Known
