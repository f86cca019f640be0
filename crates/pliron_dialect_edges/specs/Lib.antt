pub mod AtOnce
pub mod Lengthened
pub mod LongerCounts
pub mod LengthenedByRoles
