-- For all crates above.
pub mod Conversions
pub mod Filled
pub mod Growth
pub mod HeldNumbers
pub mod Homes
pub mod Rows
pub mod Sameness
pub mod StructLists
pub mod Suiting
pub mod TypedRuns
pub mod TypedValues
-- For this crate alone.
mod Calling
mod Depths
mod Layered
mod Layouts
mod Points
mod Runs
mod Samples
mod Steps
mod TwoRuns
mod TypedStates
