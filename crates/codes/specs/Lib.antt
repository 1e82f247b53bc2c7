pub mod Codes
pub mod Voltage
