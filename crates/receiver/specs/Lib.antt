pub mod Standings
pub mod Judged
pub mod Joins
pub mod Notes
