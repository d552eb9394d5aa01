-- A dual point, and where it stands.
pub mod Dual
pub mod Places
pub mod Lanes
