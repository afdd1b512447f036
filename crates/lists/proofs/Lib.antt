-- Laws of drawing lists.
pub mod Headers
pub mod InForce
pub mod Walk
pub mod Accepted
pub mod Left
pub mod Walkable
pub mod WriteBack
pub mod Examples
