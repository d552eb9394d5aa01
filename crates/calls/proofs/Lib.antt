-- Laws of calls of the entry: demand 3, what a reason tells, the looser tolerance, the dual point, and what is told before.
pub mod TwoCalls
pub mod Looser
pub mod Duals
pub mod Needs
pub mod InC
