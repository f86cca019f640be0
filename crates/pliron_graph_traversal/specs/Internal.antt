-- What contracts inside the crate, the proofs of laws and the tests cite. No public clause names it.
pub mod Forest
pub mod Steps
pub mod Membership
pub mod AddedEdges
pub mod AdjacencyLawful
pub mod RegionLawful
pub mod Sources
pub mod Marks
pub mod Numbers
pub mod Walked
