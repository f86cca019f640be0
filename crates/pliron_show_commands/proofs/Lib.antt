pub mod CommandLemmas
pub mod EndingLemmas
pub mod FaultLemmas
pub mod PartLemmas
pub mod StrictLemmas
