pub mod Drawn
pub mod RefusedRecords
pub mod OneChannelFrames
pub mod ExaminerRuns
