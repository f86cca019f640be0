pub mod Drawn
pub mod GraphRows
pub mod Quoting
