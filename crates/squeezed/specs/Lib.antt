-- Lists squeezed for storage.
pub mod Squeeze
pub mod Claim
pub mod inner
