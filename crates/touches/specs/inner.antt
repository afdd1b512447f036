-- What the drawing functions are handed.
pub mod View
