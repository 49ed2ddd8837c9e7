-- For the crates of the family.
pub mod Sizes
-- For this crate alone.
mod Brought
mod Called
mod Bodies
mod Words
