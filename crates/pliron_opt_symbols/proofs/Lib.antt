pub mod WithinLemmas
pub mod RowLemmas
pub mod FunctionLemmas
pub mod ReachedLemmas
pub mod LoopLemmas
pub mod ErasedLemmas
pub mod KeptLemmas
pub mod UnkeptLemmas
