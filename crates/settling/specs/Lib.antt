pub mod Placed
pub mod Slots
pub mod Watched
pub mod Marks
pub mod Passes
pub mod Each
