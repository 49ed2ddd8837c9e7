pub mod Names
pub mod Valid
