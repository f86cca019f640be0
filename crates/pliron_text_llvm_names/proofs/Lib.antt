pub mod NameLemmas
pub mod TableLemmas
pub mod NamingLemmas
pub mod UseLemmas
