pub mod Events
pub mod Ticks
pub mod Users
