-- Traces of a search, the fall of its best gap, demand 3, and that a looser tolerance costs no more steps.
pub mod Trace
pub mod Shrink
pub mod Falls
pub mod Clear
pub mod Demand
pub mod Looser
