-- The laws of the C interface.
pub mod Ceiling
mod ByKind
