-- Rings have no definition that an entry point cites: what lies between two circles is `coverage`'s, and what is left on a page `page`'s.
pub mod inner
