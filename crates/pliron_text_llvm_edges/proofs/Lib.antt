pub mod NumberLemmas
pub mod EdgeLemmas
pub mod IncomingLemmas
pub mod EntryLemmas
pub mod PhiLemmas
