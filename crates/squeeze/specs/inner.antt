-- How a list is squeezed record by record.
pub mod Walk
pub mod Target
pub mod Filled
pub mod Source
