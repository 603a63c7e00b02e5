pub mod Window
pub mod Memory
