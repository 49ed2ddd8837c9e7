pub mod Standing
pub mod Covered
pub mod Relation
pub mod Kept
pub mod Laws
