-- Laws of what lies between two circles.
pub mod Chords
