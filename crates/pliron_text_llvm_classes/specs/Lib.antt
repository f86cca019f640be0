pub mod FormWords
pub mod Opcodes
pub mod StatementClasses
