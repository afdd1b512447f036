-- The rows of a triangle on a page.
pub mod Side
pub mod Row
pub mod Order
