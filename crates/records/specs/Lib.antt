pub mod Files
pub mod Requests
pub mod Answers
