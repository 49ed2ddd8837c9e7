-- What forms make of operands and which rules they can break, and the laws of operands, in the order in which they build
-- on one another.
pub mod Nodes
pub mod Accesses
pub mod Choices
pub mod Calls
pub mod Sites
pub mod Constraints
pub mod Laws
pub mod Meanings
pub mod Validity
