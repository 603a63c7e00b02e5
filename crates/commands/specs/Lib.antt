pub mod Decimal
pub mod Tables
pub mod Verbs
pub mod Spoken
pub mod Digest
