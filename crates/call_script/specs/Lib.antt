pub mod Script
pub mod Pool
pub mod Roles
pub mod Kinds
