-- The definitions that the contracts of these tests and values cite.
pub mod Constants
pub mod Laws
pub mod Tests
