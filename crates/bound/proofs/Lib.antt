-- The bound holds, first for any scale on which bytes have places and then in light.
pub mod Fractions
pub mod Since
pub mod Bound
pub mod Covers
pub mod Lights
pub mod Codes
