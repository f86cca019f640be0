pub mod ByRole
pub mod HeadReads
