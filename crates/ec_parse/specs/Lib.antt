pub mod Statements
pub mod Units
pub mod Parse
