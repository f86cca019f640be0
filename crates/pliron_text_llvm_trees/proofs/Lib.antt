pub mod OperandLemmas
pub mod StatementLemmas
pub mod ArgumentLemmas
pub mod PassedLemmas
