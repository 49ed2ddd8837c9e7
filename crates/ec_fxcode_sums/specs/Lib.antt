pub mod Sums
pub mod SumLaws
pub mod Orders
pub mod OrderLaws
pub mod Operands
