-- The law of operations by shapes.
pub mod Laws
