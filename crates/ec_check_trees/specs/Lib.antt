-- The definitions of what is told from a tree alone.
pub mod Firsts
pub mod Counts
