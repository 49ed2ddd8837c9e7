-- For the crates of the family.
pub mod Tokens
pub mod Unbroken
pub mod KeptTypes
-- For this crate alone.
mod SaidTypes
mod Members
mod ValidArguments
mod ValidExpressions
mod Shapes
mod KeptForms
mod KeptExpressions
mod FunctionNames
mod Needs
mod NeedTokens
mod Declarations
mod ValidValues
mod Definitions
