pub mod LineDiff
pub mod NamedAnswer
pub mod WrittenChanges
