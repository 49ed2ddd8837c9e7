-- For the crates of the family.
pub mod Passes
-- For this crate alone.
mod Operations
mod Entries
mod Growth
mod Valid
mod KeptRows
