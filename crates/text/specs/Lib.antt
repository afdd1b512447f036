-- Numbers and pages as text.
pub mod Text
pub mod inner
