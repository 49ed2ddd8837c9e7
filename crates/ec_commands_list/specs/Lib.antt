pub mod Listings
pub mod Assemblies
