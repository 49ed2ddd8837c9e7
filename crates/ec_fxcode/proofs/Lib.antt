-- For the crates of the family.
pub mod Alike
pub mod Clamped
pub mod Fits
pub mod Moves
pub mod Parts
pub mod Short
pub mod ValidItems
pub mod Whole
-- For this crate alone.
mod Ends
mod Gathered
mod Outcomes
