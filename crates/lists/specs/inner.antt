-- How the functions within walk over a list.
pub mod Walk
