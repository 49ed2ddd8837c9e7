-- For all crates above.
pub mod Rows
