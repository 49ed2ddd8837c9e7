-- The definitions that the contracts of declarations at file scope cite.
pub mod States
pub mod FileNames
pub mod Groups
pub mod FileObjects
pub mod FileFunctions
pub mod FileScope
pub mod Laws
