-- The spans of a line, and the width and height of a triangle.
pub mod Span
pub mod inner
