pub mod Staying
pub mod Performed
pub mod Leading
pub mod Spans
