pub mod Channels
pub mod TicksInRow
