-- For all crates above.
pub mod Accuracy
pub mod FormatLemmas
pub mod Scaling
-- For this crate alone.
mod Bounds
mod Powers
