-- Laws of what is printed, of the positions in it and of the buffers, and known weeks.
mod Showing
pub mod Positions
pub mod Room
mod Known
