pub mod Additions
pub mod Functions
pub mod Stops
