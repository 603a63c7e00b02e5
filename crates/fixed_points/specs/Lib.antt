pub mod Sample
pub mod Frame
pub mod Books
