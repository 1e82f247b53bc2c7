pub mod Few
pub mod Drawn
pub mod Lines
pub mod Runs
pub mod RefusedRecords
pub mod Observed
pub mod OneChannelFrames
pub mod ExaminerRuns
