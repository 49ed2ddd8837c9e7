pub mod Quotients
pub mod Signs
pub mod Laws
pub mod SignLaws
