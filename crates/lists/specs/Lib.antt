-- Drawing lists as bytes.
pub mod List
pub mod Refused
pub mod inner
