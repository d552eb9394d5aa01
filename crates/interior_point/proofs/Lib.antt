-- Laws of a step on a part of the run, of the search that the code accounts for, and of the places of its dual point.
pub mod Places
pub mod Turns
pub mod Lengths
