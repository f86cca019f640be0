pub mod Refinement
pub mod RefinementLaws
