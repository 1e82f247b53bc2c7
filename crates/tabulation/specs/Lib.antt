pub mod Tabulation
