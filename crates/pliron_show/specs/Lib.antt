pub mod Ends
pub mod Faults
pub mod Lost
pub mod Words
