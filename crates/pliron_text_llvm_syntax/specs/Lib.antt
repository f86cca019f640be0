pub mod Tokens
pub mod Lexing
pub mod Brackets
pub mod Functions
pub mod Parts
pub mod Forms
pub mod Lines
