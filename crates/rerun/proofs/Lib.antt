-- Laws of stored cases.
mod Cases
