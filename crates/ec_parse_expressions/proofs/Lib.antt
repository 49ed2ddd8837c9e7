-- For the crates of the family.
pub mod Many
-- For this crate alone.
mod Rows
mod Steps
