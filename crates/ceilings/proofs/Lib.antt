-- Coordinates and how far they are apart, as locals give them back.
pub mod Coordinates
