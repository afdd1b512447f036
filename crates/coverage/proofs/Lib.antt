-- Laws of the coverage of a pixel by a shape.
pub mod Pixel
pub mod Discs
pub mod Query
pub mod Soundness
pub mod Outside
pub mod Strokes
