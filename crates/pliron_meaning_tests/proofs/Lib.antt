pub mod ReadConstants
pub mod WorkedFit
pub mod WorkedTree
