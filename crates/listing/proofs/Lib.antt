-- Known listings.
mod Known
