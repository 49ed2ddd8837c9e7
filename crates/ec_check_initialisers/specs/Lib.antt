-- The definitions that the contracts of sizes and initialisers cite.
pub mod Parts
pub mod Forms
pub mod Places
pub mod Sizes
pub mod Items
pub mod Sites
pub mod Locals
pub mod Statics
pub mod Laws
