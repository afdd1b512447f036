-- Proofs about a whole list on a page.
pub mod Shapes
pub mod Players
pub mod Records
pub mod Bytes
pub mod Ceiling
pub mod Lawful
pub mod Covers
pub mod Claim
pub mod Zone
pub mod Margin
pub mod Codes
pub mod Accepted
