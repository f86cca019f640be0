mod Parts
mod Counting
mod Moving
mod Doing
mod Putting
mod Testing
mod Listing
