pub mod FunctionLemmas
pub mod ModuleLemmas
