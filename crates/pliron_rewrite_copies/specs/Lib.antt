pub mod Copies
pub mod CopyLaws
pub mod ClosedBlock
pub mod Adding
pub mod Moving
pub mod Making
pub mod Splitting
