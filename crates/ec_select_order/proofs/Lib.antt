-- For the crates of the family.
pub mod Truths
-- For this crate alone.
mod Words
