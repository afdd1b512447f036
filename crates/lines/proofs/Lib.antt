-- Laws of a walk along several columns.
pub mod Walk
