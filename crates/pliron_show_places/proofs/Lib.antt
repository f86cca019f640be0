pub mod CommentLemmas
pub mod LayoutLemmas
pub mod MessageLemmas
