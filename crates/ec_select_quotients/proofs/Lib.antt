-- For the crates of the family.
pub mod Marks
pub mod Long
pub mod Signed
-- For this crate alone.
mod Rotates
mod Rows
mod Words
mod Turns
mod Loops
mod Fetched
mod Negated
mod Put
mod Stages
