pub mod Visited
pub mod Visits
pub mod Folded
pub mod FoldSteps
pub mod Removed
pub mod Merged
pub mod Simplified
pub mod Internal
