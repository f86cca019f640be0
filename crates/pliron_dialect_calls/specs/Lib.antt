pub mod CallTables
pub mod Conventions
pub mod Inlinable
pub mod HeadsByRole
pub mod ReadyActs
