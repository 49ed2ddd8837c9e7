-- For the crates of the family.
pub mod Before
pub mod Entered
pub mod Places
pub mod Right
pub mod Shifted
pub mod Steps
pub mod Negated
pub mod ValidItems
-- For this crate alone.
mod Bounds
mod Left
mod Turns
mod Whole
