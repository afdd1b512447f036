-- What the functions of this crate compute.
pub mod Nearest
pub mod Coordinate
pub mod Fraction
pub mod Sound
pub mod Sum
pub mod inner
