-- Laws that the proofs of this crate and of those above it cite.
pub mod Order
pub mod Nearest
pub mod Integer
pub mod Coordinate
pub mod Standard
pub mod Fraction
pub mod Sum
pub mod Inverse
