mod Tables
mod Expressions
mod Initialisers
mod Declarations
mod Statements
mod FileScope
mod Units
mod Programs
