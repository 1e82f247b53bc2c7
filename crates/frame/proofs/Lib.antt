pub mod Xor
pub mod Multiples
pub mod Remainders
pub mod Messages
pub mod Frames
pub mod Readings
pub mod Laws
pub mod Table
