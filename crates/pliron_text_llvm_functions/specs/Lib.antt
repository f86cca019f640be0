pub mod Parameters
pub mod Bodies
pub mod Functions
