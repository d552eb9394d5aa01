-- Laws of the candidate and of how a polish ends.
pub mod Candidates
pub mod Ends
