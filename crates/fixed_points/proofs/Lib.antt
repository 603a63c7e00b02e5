pub mod FrameProofs
pub mod BookProofs
