pub mod Routines
pub mod Program
