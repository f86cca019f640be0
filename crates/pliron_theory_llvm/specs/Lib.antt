pub mod Llvm
pub mod LlvmLaws
pub mod Examples
