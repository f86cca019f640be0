-- What contracts inside the crate, the proofs of laws and the tests cite. No public clause names it.
pub mod Collecting
pub mod Named
pub mod Picking
pub mod Sinks
pub mod ReverseLawful
