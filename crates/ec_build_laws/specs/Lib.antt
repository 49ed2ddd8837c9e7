-- The definitions that the contracts of the laws cite.
pub mod Kinds
pub mod Shortened
pub mod Translation
pub mod Laws
pub mod Runs
pub mod Shown
pub mod Spaces
pub mod Whole
