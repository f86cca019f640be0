pub mod Entering
pub mod HeaderCopied
pub mod HeaderSteps
pub mod Rotation
