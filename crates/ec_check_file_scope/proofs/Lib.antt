-- Lemmas about declarations at file scope.
-- For the crates of the family.
pub mod Sound
-- For this crate alone.
mod Walks
mod After
mod Conflicts
mod Grouped
mod DeclaredHomes
