mod Walks
mod Loops
mod Rotatable
mod Whole
mod Edges
