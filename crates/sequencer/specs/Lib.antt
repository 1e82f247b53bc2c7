pub mod Words
pub mod Transmissions
pub mod Playing
pub mod Runs
