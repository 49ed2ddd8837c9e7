-- Lemmas about what statements mean.
-- For the crates of the family.
pub mod Choices
pub mod Layouts
pub mod DeclaredTypes
pub mod Growth
pub mod Unbroken
pub mod KeptParts
pub mod KeptInitialisers
pub mod KeptTypes
-- For this crate alone.
mod Inside
mod Lists
mod Walks
mod LeafTypes
mod Tokens
mod Scopes
mod ValidInitialisers
mod ValidParts
mod ValidLocals
mod ValidStatements
mod InnerObjects
mod KeptLocals
mod KeptStatements
mod Longer
mod Needs
mod FunctionTypes
