-- Laws of squeezed lists.
pub mod Changes
pub mod Sizes
pub mod Lawful
pub mod Shorter
pub mod ListBack
pub mod Same
pub mod Keeps
pub mod Alike
pub mod Answers
