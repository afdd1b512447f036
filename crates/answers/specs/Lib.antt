-- The answers of the library in the form that C takes.
pub mod Shape
pub mod Record
pub mod List
