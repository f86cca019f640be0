pub mod AdditionLemmas
