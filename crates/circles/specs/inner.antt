-- The rows of discs and rings on a page, and the arrays of their heights.
pub mod Arrays
pub mod Row
