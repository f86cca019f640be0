pub mod Constants
pub mod Notes
pub mod Sheets
