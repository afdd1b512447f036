-- A shape on a page; no entry point cites it.
pub mod OnPage
