pub mod Guarding
pub mod Checks
pub mod OneChannel
pub mod Laws
pub mod Isolation
pub mod Noninterference
