-- The definitions that the contracts of this crate cite.
pub mod Boxed
pub mod Touches
pub mod Counted
pub mod Work
pub mod Costs
pub mod Laws
pub mod Reached
pub mod Turns
