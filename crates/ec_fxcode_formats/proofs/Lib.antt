-- For the crates of the family.
pub mod Carried
-- For this crate alone.
mod Dropped
mod Raised
mod Windows
mod Words
