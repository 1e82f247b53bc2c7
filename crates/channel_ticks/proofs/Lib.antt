pub mod QuietTicks
pub mod Conditions
pub mod Once
pub mod TicksInRow
