-- For the crates of the family.
pub mod InZ
pub mod Valid
-- For this crate alone.
mod Blocks
mod Addressed
mod Brought
mod Accessed
mod Short
mod Tagged
mod TaggedInZ
mod FarLoaded
mod FarTagged
mod FarFormed
