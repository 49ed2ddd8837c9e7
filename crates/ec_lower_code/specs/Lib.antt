-- The definitions that the contracts of the lowering cite.
pub mod Code
pub mod Correct
