-- For the crates of the family.
pub mod Shifted
pub mod Words
pub mod Counted
pub mod Known
-- For this crate alone.
mod Biased
mod Raised
mod Toward
mod Loop
