pub mod Codes
pub mod Reading
pub mod Laws
pub mod Passing
pub mod Limits
pub mod Prefixes
pub mod Refusals
