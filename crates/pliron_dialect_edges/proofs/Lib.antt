mod BranchLemmas
mod PlaceLemmas
mod LengthenLemmas
