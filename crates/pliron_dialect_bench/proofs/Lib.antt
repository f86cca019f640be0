pub mod BenchNumberLemmas
pub mod BenchSingle
