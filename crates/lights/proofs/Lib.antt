-- Laws that the proofs of this crate and of those above it cite.
pub mod Rising
pub mod Neighbours
pub mod Guesses
pub mod Codes
pub mod LightsIn
