pub mod Behind
pub mod NumberLemmas
pub mod SeenLemmas
pub mod StepLemmas
pub mod TreeLemmas
pub mod PreorderLemmas
