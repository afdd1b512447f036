-- One shape on a lent page.
pub mod Draw
