-- For the crates of the family.
pub mod Words
pub mod Once
pub mod Loops
pub mod Counted
-- For this crate alone.
mod Halves
mod Moved
mod Carried
