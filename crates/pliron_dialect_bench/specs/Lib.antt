pub mod BenchNumbers
pub mod Bench
pub mod BenchMoves
pub mod BenchAnswers
pub mod BenchFacts
pub mod BenchTaken
pub mod BenchFits
pub mod BenchLaws
