pub mod Numbers
pub mod RoleRuns
pub mod Visits
pub mod OwnMoves
pub mod Plain
pub mod WorldMoves
