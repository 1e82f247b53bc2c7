pub mod Codes
pub mod Exact
pub mod Rows
