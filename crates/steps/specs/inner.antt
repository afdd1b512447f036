-- A walk along a line.
pub mod Stroke
