pub mod Beginnings
pub mod Building
pub mod Laid
pub mod Notation
pub mod Printing
