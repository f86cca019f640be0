pub mod Looped
pub mod Guessed
