-- For the crates of the family.
pub mod Formats
pub mod Conversions
pub mod Converted
pub mod Operators
pub mod Suits
pub mod Unaries
-- For this crate alone.
mod Emits
mod Kept
mod PlainItems
mod Runs
mod Sizes
mod Truths
mod Values
