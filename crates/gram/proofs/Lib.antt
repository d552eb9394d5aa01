pub mod Products
pub mod Known
pub mod System
