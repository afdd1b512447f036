-- Laws of blending that the proofs of this crate and of those above it cite.
pub mod Nearest
pub mod CodeBlend
pub mod Blend
pub mod EvenSteps
pub mod Same
pub mod Guessing
pub mod Examples
