-- Laws of a line's frame and of the rows of its columns.
pub mod Slant
pub mod Bounds
pub mod Closed
pub mod Column
pub mod Touched
pub mod Framing
pub mod Band
