pub mod Walks
pub mod Steps
pub mod Handed
pub mod Groups
pub mod Filled
