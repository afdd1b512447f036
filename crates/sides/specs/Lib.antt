-- The coverage of a triangle, from the areas under its sides.
pub mod Triangle
pub mod inner
