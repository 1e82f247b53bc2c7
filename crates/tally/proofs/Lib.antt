pub mod TicksCounted
