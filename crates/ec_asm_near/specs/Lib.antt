pub mod Near
pub mod Labels
pub mod Rows
pub mod Laws
