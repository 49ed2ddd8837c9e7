-- For the crates of the family.
pub mod Naming
-- For this crate alone.
mod NameWalks
mod Tabled
mod Numbered
mod Walks
mod Alike
mod FoundStructs
mod Finding
mod Samples
