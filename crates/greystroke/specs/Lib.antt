-- What the calls of C do by their numbers.
pub mod Shape
pub mod Writing
