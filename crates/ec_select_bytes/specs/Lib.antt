-- The definitions that the contracts of the pieces of code cite.
pub mod Values
pub mod Laws
pub mod Complements
pub mod ComplementLaws
pub mod Homes
pub mod Operators
pub mod Ports
pub mod Signs
