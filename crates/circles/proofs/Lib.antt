-- Laws of discs and rings on a page.
pub mod Apart
pub mod Row
pub mod Box
pub mod Shape
