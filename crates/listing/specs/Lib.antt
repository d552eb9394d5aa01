-- What `put_listing` prints. `week` relates it to the listing of a fit.
pub mod Shown
