-- Laws of the touched columns of a line.
pub mod Column
