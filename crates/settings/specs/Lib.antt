-- The settings in force, the drawings of a list and its ceiling.
pub mod Settings
pub mod Drawing
pub mod Ceiling
