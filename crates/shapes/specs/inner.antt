-- The numbers of shapes as the functions within take them.
pub mod Offsets
