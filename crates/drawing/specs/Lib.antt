-- A whole drawing list on a lent page.
pub mod Touches
pub mod Page
pub mod Counts
pub mod Outcome
pub mod Claim
pub mod Ceiling
pub mod Cover
pub mod Zone
pub mod Margin
pub mod Codes
pub mod inner
