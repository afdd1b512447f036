-- How many pixels a shape may touch.
pub mod Ceiling
pub mod inner
