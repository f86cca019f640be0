pub mod ModuleLemmas
pub mod PrintLemmas
