-- The definitions that the contracts of statements cite, their laws, and what these speak of.
pub mod Around
pub mod Results
pub mod Kinds
pub mod Walks
pub mod Parts
pub mod Locals
pub mod Headings
pub mod Statements
pub mod Objects
pub mod Laws
