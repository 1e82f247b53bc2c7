pub mod Flips
pub mod Laws
pub mod Masks
pub mod Places
