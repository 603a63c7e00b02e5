pub mod Words
pub mod Taking
pub mod Endpoints
