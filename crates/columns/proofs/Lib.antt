-- Laws of the columns of a line on a page.
pub mod Strip
pub mod RowPixel
pub mod Fits
pub mod Touching
