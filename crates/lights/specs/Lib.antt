-- Lights.
pub mod Lights
pub mod Codes
pub mod inner
