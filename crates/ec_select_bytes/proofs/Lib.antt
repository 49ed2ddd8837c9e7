-- Lemmas about the parts of operations.
-- For the crates of the family.
pub mod Constants
pub mod Tests
pub mod Extensions
pub mod Straight
pub mod Turned
pub mod Bytes
-- For this crate alone.
mod Bounds
