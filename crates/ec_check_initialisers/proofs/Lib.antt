-- Lemmas about sizes and initialisers.
-- For the crates of the family.
pub mod PartTypes
-- For this crate alone.
mod Moves
mod Inside
mod Numbers
mod Counts
mod Members
mod Rests
mod Fitting
mod LocalLeaves
mod HeldConstants
mod Agreement
mod StaticLeaves
mod StaticNumbers
mod NoPointers
mod Samples
