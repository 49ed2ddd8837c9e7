-- Lemmas about what initialisers, declarations and statements are.
-- For the crates of the family.
pub mod Locals
pub mod FileScope
-- For this crate alone.
mod Initialisers
mod Values
mod Expressions
mod Statements
mod Samples
