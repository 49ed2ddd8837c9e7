-- For the crates of the family.
pub mod Advanced
pub mod FarPlaces
-- For this crate alone.
mod Places
mod Blocks
mod Scaled
mod Multiples
mod Embedded
mod Short
mod Valid
mod Apart
mod Inverted
mod Sized
mod FarFormed
mod Indexed
