-- The definitions that the contracts of known numbers cite.
pub mod Known
pub mod Laws
