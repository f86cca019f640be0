pub mod ReadyLemmas
pub mod Reaches
pub mod Thinned
pub mod PlaceLists
pub mod Places
pub mod RemovedThins
pub mod SweptThins
pub mod ReadySteps
pub mod Progress
pub mod ReadyTests
pub mod Pending
pub mod MeasureLemmas
pub mod TakeLemmas
pub mod WorkLemmas
pub mod AroundSets
pub mod SweepLemmas
pub mod StepMeasure
pub mod CandidateLemmas
pub mod ErasedEdges
pub mod IncomingLists
pub mod MarkLemmas
pub mod IncomingLemmas
mod LeafLemmas
mod LiveOperands
