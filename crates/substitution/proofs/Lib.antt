-- The laws of the way back, and of orders 1 and 2.
pub mod Laws
pub mod Orders
