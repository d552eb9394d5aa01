-- The lines of a listing, and the positions that they print.
pub mod Lines
pub mod Positions
