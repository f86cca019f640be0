pub mod StatusLemmas
pub mod InsideRewrites
