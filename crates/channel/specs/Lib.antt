pub mod Answers
pub mod Calls
pub mod Downloads
pub mod OneChannel
