pub mod Turns
pub mod Counted
