-- Several columns of a stroke.
pub mod Columns
