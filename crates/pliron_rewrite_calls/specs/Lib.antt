pub mod Splitting
pub mod CopyTables
pub mod Copying
pub mod CopySteps
pub mod Copyable
pub mod Preparing
pub mod Inlining
pub mod InliningSteps
