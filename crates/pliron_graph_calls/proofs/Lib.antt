pub mod NameLemmas
pub mod TableLemmas
pub mod AmongLemmas
pub mod CallLemmas
