-- Laws that the proofs of this crate and of those above it cite.
pub mod Over
pub mod Clip
pub mod Clamp
pub mod Paint
pub mod Touches
pub mod Drawn
pub mod Same
