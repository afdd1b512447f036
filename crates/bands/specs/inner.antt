-- What the functions within say of the rows and the frame of a line; no entry point cites it.
pub mod Rows
pub mod Frame
