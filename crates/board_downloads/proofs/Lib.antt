pub mod Portions
pub mod Answering
