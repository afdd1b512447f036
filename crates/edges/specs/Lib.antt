-- The rule for a pixel's area under a straight edge, which serves the band of a line and the sides of a triangle.
pub mod Edge
pub mod Area
pub mod inner
