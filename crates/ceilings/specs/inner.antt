-- What trying a record tells.
pub mod Tried
