-- The laws of ceilings.
pub mod Ceiling
