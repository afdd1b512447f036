-- What is refused, and in which order it is tried.
pub mod Limits
pub mod Refusal
