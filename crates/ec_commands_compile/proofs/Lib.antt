-- For the crates of the family.
pub mod Statuses
pub mod Usage
pub mod RunGen
pub mod Keeping
pub mod ReadingExec
-- For this crate alone.
mod Reading
mod RunExec
mod Written
mod Texts
