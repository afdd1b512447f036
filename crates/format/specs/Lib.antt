-- Headers and records as bytes.
pub mod Format
pub mod Kind
pub mod inner
