-- For the crates of the family.
pub mod Kept
pub mod Written
pub mod OneFormat
-- For this crate alone.
mod Emits
mod OneRoutine
mod Powers
