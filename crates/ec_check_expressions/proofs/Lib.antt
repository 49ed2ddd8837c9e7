-- For the crates of the family.
pub mod Sizes
-- For this crate alone.
mod Lengths
mod Walks
mod ArgumentLists
