-- What contracts inside the crate and the proofs of laws cite. No public clause names it.
pub mod LastFirst
pub mod Seen
pub mod Contents
pub mod Unnamed
pub mod OtherUses
pub mod Clears
pub mod Scopes
pub mod Cleared
pub mod MergeSteps
pub mod Chains
