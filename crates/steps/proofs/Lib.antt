-- Laws of one column of a line, and of the next.
pub mod Column
pub mod Advance
pub mod Dots
pub mod Steps
