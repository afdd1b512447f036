-- Lines have no definition that an entry point cites: what a line leaves on a page is `coverage`'s and `page`'s.
pub mod inner
