-- For all crates above.
pub mod Backwards
-- For this crate alone.
mod Examples
