-- Laws of the heights of a circle and of the chord rule.
pub mod Height
pub mod Chord
