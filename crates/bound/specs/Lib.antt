-- What contracts say of a pixel's byte and its exact blend.
pub mod Exact
pub mod Codes
pub mod Sound
