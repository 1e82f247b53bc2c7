pub mod Polynomials
pub mod Crc
pub mod Frames
pub mod Laws
pub mod Table
