pub mod Numbers
pub mod Finds
pub mod Adds
pub mod Counts
pub mod Reaches
pub mod Hints
