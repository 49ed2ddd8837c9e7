-- For the crates of the family.
pub mod Leaves
-- For this crate alone.
mod Codes
mod Depths
