pub mod Settled
pub mod Accepted
pub mod Laying
pub mod Adopting
pub mod Telling
pub mod Fresh
