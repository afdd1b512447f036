-- The sides of a row, and the quarters of a ring.
pub mod Mirrored
