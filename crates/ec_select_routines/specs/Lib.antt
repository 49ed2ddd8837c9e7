-- The code of routines and of their calls, and its laws.
pub mod Codes
pub mod Laws
pub mod Sizes
