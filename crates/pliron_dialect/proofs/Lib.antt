mod NumberLemmas
mod RoleReads
mod EdgeLemmas
mod BranchReads
mod FitReads
pub mod RangeReads
pub mod JumpLemmas
