pub mod OneMore
pub mod Lengthening
pub mod Pushing
pub mod Added
pub mod Passing
pub mod Closing
