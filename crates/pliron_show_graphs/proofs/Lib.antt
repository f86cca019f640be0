pub mod DotLemmas
pub mod RowLemmas
