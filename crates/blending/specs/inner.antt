-- How a blend is worked out; no entry point cites it.
pub mod Quotient
pub mod Scale
pub mod Search
