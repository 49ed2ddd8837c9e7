pub mod Suits
pub mod FunctionNames
pub mod Laws
