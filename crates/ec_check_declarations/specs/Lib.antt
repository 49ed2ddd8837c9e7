-- The definitions that the contracts of declarations cite.
pub mod Sites
pub mod Scopes
pub mod ObjectTypes
pub mod Declarators
pub mod Params
pub mod Functions
pub mod Structures
pub mod NameSets
pub mod Registers
pub mod Mains
