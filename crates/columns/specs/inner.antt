-- How a line lies on a page, and which columns of it a walk takes.
pub mod Layout
pub mod Columns
