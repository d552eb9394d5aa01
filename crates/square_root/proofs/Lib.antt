-- The laws of the square root, its meaning, and known roots.
pub mod Root
pub mod Rounded
pub mod Patterns
pub mod Counter
pub mod Newton
pub mod Joined
pub mod Nearest
pub mod Meaning
pub mod Known
