pub mod Paces
pub mod Monotone
pub mod RefinedSubstitute
pub mod SweptRefines
