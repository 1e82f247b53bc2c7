pub mod Interpolation
pub mod Ramp
pub mod Rules
pub mod Answers
pub mod Laws
pub mod Rows
