-- What is promised beside the contracts: each file is a record, each field a theorem. The definitions are those of specs/ of the crates
-- below, and nothing else has to be believed.
pub mod Edges
pub mod Lines
pub mod Circles
pub mod Triangles
pub mod Coverage
pub mod Blending
pub mod Bound
pub mod Pages
pub mod Zones
pub mod Columns
pub mod Ceilings
pub mod Lists
pub mod Squeezing
pub mod Numbers
pub mod Text
pub mod Worked
