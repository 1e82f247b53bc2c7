pub mod Quiet
pub mod Ticks
