-- The definitions of shapes, of the parts of a program and of its weight by shapes.
pub mod Shapes
pub mod Parts
pub mod SharedWeight
