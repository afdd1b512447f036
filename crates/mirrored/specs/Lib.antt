-- Pixels that mirror each other have no definition that an entry point cites: what they leave on a page is `coverage`'s and `page`'s.
pub mod inner
