-- Laws of squeezing a list into an output.
pub mod Took
pub mod Walk
