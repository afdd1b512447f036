-- Laws of one shape on a page.
pub mod Refusals
pub mod OfKind
