pub mod Sides
pub mod Spread
