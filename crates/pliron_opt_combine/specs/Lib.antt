pub mod Rewrites
pub mod Steps
