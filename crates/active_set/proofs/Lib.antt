-- Laws of the marks and of the compressed system.
pub mod Laws
pub mod Settling
