-- The rule by naturals; no entry point cites it.
pub mod Strip
