-- Squeezing has no definition of its own that an entry point cites: what a list is squeezed to is `squeezed`'s.
pub mod inner
