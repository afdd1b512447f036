-- Columns have no definition that an entry point cites.
pub mod inner
