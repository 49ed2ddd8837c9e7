-- For all crates above.
pub mod Overwrite
-- For this crate alone.
mod Bytes
