mod FirstWays
pub mod ArgumentEdges
mod ArgumentData
mod ArgumentKeeps
pub mod ArgumentChanges
mod FindingLemmas
mod ArgumentStays
