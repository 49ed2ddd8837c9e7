-- For all crates above.
pub mod Hoare
pub mod Takes
pub mod Behaves
pub mod Calls
pub mod Numbers
pub mod Bytes
pub mod Sum
pub mod Compared
pub mod Signed
pub mod Halved
pub mod Operators
pub mod ItemWords
pub mod Far
pub mod Ending
pub mod Stack
pub mod Results
pub mod Fetched
-- For this crate alone.
mod MachineLaws
mod Known
mod Shown
mod Families
mod Accesses
mod Single
mod Steps
mod Based
mod Machine
mod Placed
mod Appended
