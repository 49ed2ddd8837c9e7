-- For all crates above.
pub mod InstructionAt
-- For this crate alone.
mod Rows
