pub mod Modules
pub mod Outcomes
pub mod Streams
