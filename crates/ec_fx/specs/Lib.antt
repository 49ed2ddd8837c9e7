-- The definitions that the contracts of fixed-point arithmetic cite.
pub mod Arithmetic
pub mod Constants
pub mod Conversions
pub mod Formats
pub mod Numbers
pub mod Ranges
pub mod Results
pub mod Rounding
