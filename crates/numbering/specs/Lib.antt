pub mod Spans
pub mod Counting
pub mod Answer
pub mod Members
pub mod Streams
