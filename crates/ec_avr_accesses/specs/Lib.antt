-- The definitions that the contracts of the laws cite.
pub mod Sram
