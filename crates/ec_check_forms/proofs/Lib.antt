-- For the crates of the family.
pub mod Members
pub mod ValidOperands
pub mod Decided
-- For this crate alone.
mod PlainCalls
mod Rules
mod ValidNumbers
mod ValidOperations
mod ValidForms
mod ValidChoices
mod FormsValid
mod Meanings
mod MembersMeant
mod Sizes
