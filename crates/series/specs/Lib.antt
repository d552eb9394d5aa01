-- What the code's contracts cite.
pub mod Inner
