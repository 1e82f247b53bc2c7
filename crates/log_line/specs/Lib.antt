pub mod Lines
pub mod Numerals
pub mod Written
