-- The laws of l2.
pub mod Scaled
pub mod System
