pub mod Naming
pub mod Due
