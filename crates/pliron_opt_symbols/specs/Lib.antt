pub mod Kept
pub mod Erasing
pub mod ErasedStates
pub mod Rows
