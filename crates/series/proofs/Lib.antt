-- Laws of slots in arrays, of a walk that gathers them, of one that closes them up, and of what is then taken.
mod Arrays
mod Gathering
mod Closing
mod Taking
