-- For the crates of the family.
pub mod Cells
pub mod ByRoutine
pub mod Counts
pub mod OnIntegers
pub mod OnWholes
pub mod Taken
pub mod Joins
-- For this crate alone.
mod Wrapped
mod Transfers
mod Moves
mod Match
mod Computed
mod ByNumber
mod Bounds
mod Next
mod Stores
mod Accesses
mod FixedRuns
mod Limited
mod Carried
mod Negated
mod Stopped
mod Placed
mod Follow
mod Checked
mod PortBytes
mod PortStates
mod PortReads
mod PortPoints
mod PortForms
mod PortMatch
mod CellMatch
mod Fronts
mod Numbers
mod Numeric
mod Behind
mod Going
mod Pointed
mod Reached
mod PointerNumbers
mod MemorySteps
mod InZ
mod PointerSteps
mod PortSteps
mod LowMasks
mod Joined
mod TopBits
mod Steps
mod Extended
mod Standing
mod Orders
mod Truth
mod Tested
mod Ordered
mod Masked
mod Related
mod Turned
mod Multiplied
mod Shifted
mod Divided
mod Saved
mod Setting
mod Active
mod Returned
mod Resumed
mod Called
mod Program
mod Safe
