-- The definitions that the contracts of the walk over expressions cite, in the order in which they build on one
-- another.
pub mod Counts
pub mod Names
pub mod Tokens
pub mod Types
pub mod Known
pub mod TypeNames
pub mod Sites
pub mod Callees
pub mod Arguments
pub mod Bindings
pub mod Expressions
