-- Laws of pixels that mirror each other.
pub mod Mirrored
pub mod Pair
