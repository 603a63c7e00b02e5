pub mod Meaning
pub mod Views
