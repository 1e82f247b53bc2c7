pub mod WordKinds
pub mod Steps
pub mod Moves
pub mod Laws
pub mod Untagged
