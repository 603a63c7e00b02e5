pub mod Numbers
pub mod Kind
pub mod Image
pub mod ImageLaw
pub mod Model
pub mod Opening
pub mod Shown
