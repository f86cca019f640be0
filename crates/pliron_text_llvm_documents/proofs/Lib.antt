pub mod HolderLemmas
pub mod PartLemmas
