-- For the crates of the family.
pub mod Basics
pub mod Whole
pub mod Refusals
-- For this crate alone.
mod Follow
mod Past
mod Lists
mod Expressions
mod Declarations
mod Statements
mod Units
mod Sound
mod SoundUnits
mod Local
mod LocalItems
mod LocalExpressions
mod LocalDeclarations
mod LocalStatements
mod LocalUnits
mod LocalRead
mod Ends
mod Fitting
mod FittingUnits
mod Fits
mod Told
mod ToldSteps
mod ToldExpressions
mod ToldDeclarations
mod ToldStatements
mod ToldUnits
mod Agreeing
mod Completing
mod Shortest
mod ViableTypes
mod ViableExpressions
mod ViableOperators
mod ViableDeclarations
mod ViableHeadings
mod ViableStatements
mod ViableUnits
mod Prefixes
