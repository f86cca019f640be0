pub mod CombinationLemmas
pub mod EffectLemmas
pub mod DeadCodeLemmas
pub mod ControlFlowLemmas
pub mod EdgeThreadingLemmas
pub mod ReportLemmas
