pub mod Names
pub mod Namesakes
pub mod FunctionNames
pub mod CallSites
