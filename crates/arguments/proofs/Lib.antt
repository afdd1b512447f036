-- The laws of the numbers that are taken.
pub mod Held
pub mod Refused
