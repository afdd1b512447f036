-- Laws of the text that is written.
pub mod Written
pub mod Decimal
