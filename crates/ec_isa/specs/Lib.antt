pub mod Addresses
pub mod Formats
pub mod Table
pub mod Reading
