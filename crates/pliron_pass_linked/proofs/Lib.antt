pub mod Extending
pub mod Counting
pub mod Meeting
pub mod Linking
pub mod LinkedAgree
pub mod KeepsLinked
