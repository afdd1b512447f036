-- How the functions within draw; no entry point cites it.
pub mod Ink
pub mod Paint
