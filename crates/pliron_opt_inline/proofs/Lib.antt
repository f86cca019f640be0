pub mod CalleeLemmas
pub mod InTurnLemmas
pub mod SizeLemmas
pub mod RowLemmas
pub mod OneCallLemmas
pub mod ModuleLemmas
