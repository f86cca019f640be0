pub mod Numbers
pub mod Flags
pub mod Arithmetic
pub mod Operators
