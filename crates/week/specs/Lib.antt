-- What the weekly program prints, and that its buffers are enough; apart, what the code's own contracts cite.
pub mod Week
pub mod Room
pub mod Positions
pub mod Shown
