pub mod Calls
pub mod LinkedRuns
pub mod LinkedAgree
pub mod KeepsLinked
pub mod LinkedLaws
