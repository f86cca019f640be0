pub mod Operands
pub mod Results
pub mod Statements
pub mod Arguments
pub mod Passed
pub mod Trees
