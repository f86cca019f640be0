pub mod Comments
pub mod Isolated
pub mod Layout
pub mod Messages
pub mod Laid
pub mod Places
