-- For the crates of the family.
pub mod Multiplied
-- For this crate alone.
mod Puts
mod Signs
mod Words
