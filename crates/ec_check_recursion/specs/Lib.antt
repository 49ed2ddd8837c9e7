pub mod Rows
pub mod Boxed
pub mod Recursion
