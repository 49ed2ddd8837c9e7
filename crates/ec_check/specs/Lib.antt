-- The definitions that the contract of `check` and the laws cite.
pub mod Definitions
pub mod Units
pub mod Broken
pub mod Answers
pub mod Agreement
pub mod Laws
pub mod Validity
