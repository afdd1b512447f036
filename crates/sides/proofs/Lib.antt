-- Laws of the coverage of a triangle.
pub mod Sides
pub mod Round
pub mod Turned
pub mod TwoSides
pub mod Found
pub mod Placed
pub mod Examples
