-- What the functions within say of a circle; no entry point cites it.
pub mod Circle
