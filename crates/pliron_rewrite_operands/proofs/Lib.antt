pub mod Answered
mod Known
pub mod Whole
