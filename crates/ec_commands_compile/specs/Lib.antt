pub mod Stops
pub mod Inputs
pub mod Builds
pub mod Kept
pub mod Execs
pub mod Gens
