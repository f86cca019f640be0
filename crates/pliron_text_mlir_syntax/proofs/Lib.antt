pub mod NumberLemmas
pub mod SheetLemmas
