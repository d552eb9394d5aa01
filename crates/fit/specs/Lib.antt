-- The whole fit, from what is asked and lent to its outcome.
pub mod Outputs
pub mod Fit
pub mod Ways
pub mod Known
pub mod Reasons
pub mod Demand3
pub mod Lasting
pub mod Looser
pub mod KnotPlaces
pub mod Duals
pub mod Needs
