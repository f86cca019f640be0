pub mod Names
pub mod Tables
pub mod Definitions
pub mod Naming
pub mod Uses
