-- Laws of numbers and of heads.
pub mod Numbers
pub mod Heads
pub mod Floats
