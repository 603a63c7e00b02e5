pub mod Counting
pub mod Noting
pub mod Feeds
