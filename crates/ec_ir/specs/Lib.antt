-- The definitions that the contracts of the intermediate program cite.
pub mod Costs
pub mod Laws
pub mod Meaning
pub mod Operations
pub mod Temporaries
pub mod Valid
