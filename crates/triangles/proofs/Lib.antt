-- Laws of the rows of a triangle.
pub mod Standing
pub mod Between
pub mod Blended
pub mod Apart
pub mod Sorting
pub mod Rows
