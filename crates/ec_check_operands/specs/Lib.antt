-- The definitions that the contracts of faults and of typed operands cite, in the order in which they build on one
-- another.
pub mod Faults
pub mod Laws
pub mod Options
pub mod Sorts
pub mod Conversions
pub mod Operators
pub mod Meetings
pub mod Operands
pub mod Passing
