pub mod Tiny
pub mod Evaluator
pub mod TinyLaws
pub mod TinyEntries
