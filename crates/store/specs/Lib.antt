pub mod Kind
pub mod Law
pub mod Faults
pub mod Calls
