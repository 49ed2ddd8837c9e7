pub mod Shifts
pub mod Counts
pub mod ShiftLaws
