pub mod Parts
pub mod Tags
pub mod Fronts
pub mod Windows
pub mod Walks
pub mod Sendings
pub mod Joins
