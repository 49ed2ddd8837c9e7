-- The definitions that the contracts of the lowering cite, beside those of `ec_lower_code`.
pub mod Branches
pub mod Emits
pub mod Sizes
pub mod Sites
