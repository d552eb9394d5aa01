-- Laws of the direction and the step cap.
pub mod Edges
pub mod Laws
