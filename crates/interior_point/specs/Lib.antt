-- The definitions that the contracts of interior_point cite.
pub mod InteriorPoint
pub mod Account
