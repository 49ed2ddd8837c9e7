pub mod Tokens
pub mod Trees
pub mod Spelling
pub mod Grammar
pub mod Nesting
pub mod Views
