pub mod OneValue
pub mod ArgumentLaws
pub mod Finding
