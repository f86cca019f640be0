pub mod Symbols
pub mod Mentions
