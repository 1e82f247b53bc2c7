pub mod Answers
pub mod Replying
