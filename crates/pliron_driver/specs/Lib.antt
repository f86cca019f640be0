pub mod Ending
pub mod Plans
pub mod PipelineTexts
pub mod Ran
pub mod Asked
pub mod Answered
pub mod Read
pub mod Closed
