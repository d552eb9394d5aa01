-- Laws of what a fit left.
mod Told
