-- Framed bytes: numbers, and records of a kind and a body; apart, the places that the code reads.
pub mod Bytes
pub mod Frames
pub mod Places
