-- Lemmas about declarations.
-- For the crates of the family.
pub mod Lifted
pub mod Types
pub mod Structs
-- For this crate alone.
mod Lists
mod Typed
mod Apart
mod Named
