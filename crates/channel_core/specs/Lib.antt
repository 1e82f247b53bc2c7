pub mod Results
pub mod Answers
pub mod State
pub mod Behaviour
