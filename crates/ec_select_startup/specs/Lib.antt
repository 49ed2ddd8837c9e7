pub mod Startup
pub mod Laws
