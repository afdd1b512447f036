-- How far a line goes.
pub mod Column
