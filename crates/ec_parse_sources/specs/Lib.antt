-- The definitions that the contracts of units cite.
pub mod Units
pub mod Stops
