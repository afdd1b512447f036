-- What laws of squeezed lists speak of; no entry point cites it.
pub mod Size
