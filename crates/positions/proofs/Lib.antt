pub mod Bounds
pub mod Shifts
