pub mod ErasedFunctions
pub mod Callers
pub mod CallersByRole
