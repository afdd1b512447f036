-- Blending in light.
pub mod Blend
pub mod CodeBlend
pub mod inner
