-- The coverage of a pixel by a shape.
pub mod Coverage
pub mod inner
