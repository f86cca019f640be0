pub mod SameData
pub mod LlvmOrder
pub mod LlvmMonotone
pub mod SomeTarget
pub mod PureGives
pub mod Refining
