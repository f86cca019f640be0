pub mod Classes
pub mod Taken
pub mod Owners
pub mod Known
pub mod Said
pub mod SaidOf
pub mod TakenHeads
pub mod Additions
