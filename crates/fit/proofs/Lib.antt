-- Laws of the fit, its dual point, demand 3, the looser tolerance, what is told before, and the known fits.
pub mod Sign
pub mod Passed
pub mod Lengths
pub mod Duals
pub mod Demand3
pub mod Looser
pub mod Needs
pub mod Known
pub mod Corpus
