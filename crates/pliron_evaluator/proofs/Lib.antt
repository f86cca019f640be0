pub mod TinyLemmas
pub mod EvaluatorLemmas
pub mod EvaluatorSteps
pub mod TinyMoves
pub mod BenchActs
