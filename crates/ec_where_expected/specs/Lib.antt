pub mod Expected
pub mod Listed
