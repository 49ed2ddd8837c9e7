-- What operations may cost by their shapes.
pub mod Costs
