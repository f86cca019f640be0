mod FillLemmas
mod ModuleLemmas
