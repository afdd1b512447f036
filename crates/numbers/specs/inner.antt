-- What the functions within compute; no entry point cites it.
pub mod Order
pub mod Offset
pub mod Equal
pub mod Inverse
