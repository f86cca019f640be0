pub mod GrowthLemmas
pub mod BuildLemmas
pub mod CheckLemmas
pub mod LaidLemmas
pub mod WiredLemmas
pub mod LinkedText
pub mod UndoneLemmas
