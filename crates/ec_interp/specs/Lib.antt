-- The definitions that the contracts of the interpreter cite.
pub mod Shows
pub mod Suits
pub mod Events
pub mod Views
pub mod Accesses
pub mod Actions
pub mod Does
pub mod Lookups
pub mod Loops
pub mod Outcomes
pub mod Places
pub mod Updates
pub mod Weights
