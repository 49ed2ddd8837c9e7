-- What expressions mean, in the order in which the definitions build on one another.
pub mod Terms
pub mod Bindings
pub mod Conversions
pub mod Means
pub mod Parts
pub mod NodeModes
pub mod Sites
pub mod Rules
pub mod Laws
