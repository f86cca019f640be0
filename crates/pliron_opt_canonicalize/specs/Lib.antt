pub mod Folds
pub mod Counts
pub mod Sites
pub mod Steps
