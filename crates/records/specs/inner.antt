-- What is told of the record at the front of some bytes.
pub mod Front
