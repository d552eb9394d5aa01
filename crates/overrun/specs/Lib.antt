-- Fractions in lowest terms, hours in frames and their overrun, and what the nearest double is; apart, what the code's own contracts cite.
pub mod Fractions
pub mod Overrun
pub mod Nearest
pub mod Inner
