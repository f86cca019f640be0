pub mod Chains
pub mod Moved
pub mod EdgeLaws
pub mod Ends
pub mod MoveSteps
