-- The heights of a circle and the chord rule.
pub mod Circle
pub mod inner
