pub mod Tally
pub mod TallyLaw
pub mod Model
