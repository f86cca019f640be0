pub mod Copying
pub mod Callees
pub mod Sizes
pub mod InTurn
pub mod CallGraph
pub mod Module
pub mod Turns
