pub mod Staying
pub mod Changing
pub mod Doing
pub mod Listing
