-- Laws of the touches of a shape.
pub mod Touches
pub mod Ceiling
