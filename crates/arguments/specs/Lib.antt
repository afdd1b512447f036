-- The numbers of C as the library takes them.
pub mod Taken
