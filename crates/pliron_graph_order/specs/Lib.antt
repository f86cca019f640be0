pub mod Seen
pub mod Behind
pub mod Order
pub mod Numbering
pub mod Preorder
