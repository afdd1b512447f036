-- The writer of a drawing list.
pub mod Writer
