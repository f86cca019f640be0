pub mod ShownEffects
pub mod ErasedFunctions
