-- The band around a line: its frame, and the two rules of coverage in it.
pub mod Line
pub mod Frame
pub mod Band
pub mod inner
