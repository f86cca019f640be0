pub mod Numbers
pub mod Successors
pub mod Incoming
pub mod Phis
pub mod Stops
