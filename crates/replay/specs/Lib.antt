pub mod Tied
pub mod Requests
pub mod Replies
pub mod Rows
pub mod Histories
pub mod Entries
pub mod Taped
