pub mod Inlined
pub mod InliningLaws
pub mod InlinedBeside
