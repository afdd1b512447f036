-- The reader and the writer of one record.
pub mod Read
pub mod Write
pub mod inner
