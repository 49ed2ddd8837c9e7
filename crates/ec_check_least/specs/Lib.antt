-- The definitions that the contract of the law cites.
pub mod Told
