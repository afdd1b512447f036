-- Laws of the area under an edge.
pub mod Strip
pub mod Slant
pub mod Under
pub mod Edge
pub mod Slices
pub mod Turned
pub mod Found
