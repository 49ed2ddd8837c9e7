-- The definitions that the contracts of the laws cite.
pub mod Watched
pub mod Laws
