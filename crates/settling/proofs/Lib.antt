pub mod Finding
pub mod Bounds
pub mod Writes
pub mod Meeting
pub mod Upto
pub mod Feeding
pub mod Climbing
pub mod Rounds
