pub mod Stops
pub mod Bounds
