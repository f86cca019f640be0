pub mod RunWords
pub mod LostNumbers
pub mod Functions
