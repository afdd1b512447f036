-- What is known of lights that have been tried, and of palettes; no entry point cites it.
pub mod Fit
pub mod Palette
