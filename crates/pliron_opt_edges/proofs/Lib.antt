pub mod ChainLemmas
pub mod LedTrees
pub mod Placed
pub mod HopLemmas
pub mod EndsKept
pub mod LedRuns
mod WalkLemmas
mod MoveLemmas
