-- For all crates above.
pub mod Sums
pub mod Once
pub mod Parts
pub mod Rows
