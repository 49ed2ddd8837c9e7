pub mod Stops
pub mod Judgements
pub mod Machines
