pub mod Noted
pub mod Stands
