-- Laws of the limits, of the spans of a line, and of triangles.
pub mod Limits
pub mod Refusals
pub mod Span
pub mod Triangles
