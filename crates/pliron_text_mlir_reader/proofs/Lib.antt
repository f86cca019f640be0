pub mod SaidLemmas
pub mod TakenLemmas
pub mod KnownLemmas
pub mod AdditionLemmas
