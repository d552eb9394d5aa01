-- Laws of lines.
pub mod More
