-- For the crates of the family.
pub mod Options
pub mod Conversions
pub mod Parts
pub mod Stores
-- For this crate alone.
mod Operations
mod Choices
mod Names
mod Ports
mod Bindings
mod Forms
mod Meanings
mod Around
mod NodeModes
mod Sites
mod SitesWalk
mod SitesOf
mod Rules
mod Examples
