-- Which pixels a shape touches.
pub mod Touch
pub mod inner
