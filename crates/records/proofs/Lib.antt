-- Laws of reading and writing a record.
pub mod Refusals
pub mod Writes
pub mod ReadBack
