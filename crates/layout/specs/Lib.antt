pub mod Wire
pub mod Kinds
pub mod Reach
pub mod Lawful
pub mod Hint
pub mod Copies
