-- What the functions within say of the buffer; no entry point cites it.
pub mod Put
