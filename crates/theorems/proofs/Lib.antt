-- Each theorem by the law that proves it, which stands in the crate that it is about.
pub mod Edges
pub mod Lines
pub mod Circles
pub mod Triangles
pub mod Coverage
pub mod Blending
pub mod Bound
pub mod Pages
pub mod Zones
pub mod Columns
pub mod Ceilings
pub mod Lists
pub mod Squeezing
pub mod Numbers
pub mod Text
pub mod Worked
