-- Lemmas about words, specifiers, lists of qualifiers, what stands before a name, and parts that are made of others; and about
-- which parts stand where.
-- For the crates of the family.
pub mod Joined
pub mod Standing
pub mod Types
pub mod Mains
-- For this crate alone.
mod Tests
mod Qualifiers
mod Orders
mod Sets
mod TypeWords
mod Storages
mod Specifiers
mod Voids
mod Heads
mod Nested
mod Expressions
mod Functions
mod ConstantForms
mod Numbers
mod Declared
mod Addresses
mod Items
mod Sizes
mod Members
mod Structures
mod Objects
mod Initialisers
mod FirstStorages
mod Blocks
mod Statements
mod FileNames
mod Linkages
mod Readings
mod Places
mod Outside
mod FileScope
