-- For the crates of the family.
pub mod Begun
pub mod Rows
pub mod Signs
pub mod Sizes
pub mod ValidItems
-- For this crate alone.
mod Loop
mod Number
mod Ready
mod Start
mod Steps
mod Whole
mod Words
