-- How the functions within hold a record's bytes.
pub mod Record
