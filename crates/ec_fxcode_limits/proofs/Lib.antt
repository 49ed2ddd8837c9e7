-- For the crates of the family.
pub mod Ends
pub mod Limited
pub mod Opposite
-- For this crate alone.
mod Numbers
mod Flags
