-- What rings are drawn from.
pub mod Circles
pub mod Heights
pub mod Placed
