-- The bytes of a page.
pub mod Page
pub mod inner
