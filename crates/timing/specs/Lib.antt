pub mod Ticking
pub mod Timing
pub mod Commands
pub mod Outcomes
