-- How a list is drawn record by record.
pub mod Walk
