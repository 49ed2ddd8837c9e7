-- What statements, initialisers and units are in the program, in the order in which the definitions build on one another.
pub mod Initialisers
pub mod Statements
pub mod Units
pub mod Laws
