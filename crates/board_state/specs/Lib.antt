pub mod State
pub mod Parts
pub mod Main
pub mod Checks
