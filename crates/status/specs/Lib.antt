pub mod Bits
pub mod Latching
