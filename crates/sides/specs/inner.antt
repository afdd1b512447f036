-- A triangle by its rows, and by the offsets of its corners; no entry point cites it.
pub mod Offsets
