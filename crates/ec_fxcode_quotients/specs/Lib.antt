pub mod Formats
pub mod Quotients
pub mod QuotientLaws
