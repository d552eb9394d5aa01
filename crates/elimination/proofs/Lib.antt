-- The laws of elimination, of orders 1 and 2, and of the test of a pivot.
pub mod Elimination
pub mod Orders
pub mod Pivots
