pub mod Based
pub mod Laws
