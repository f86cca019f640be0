pub mod Walked
pub mod Tested
pub mod Made
