-- For all crates above.
pub mod Named
pub mod Points
