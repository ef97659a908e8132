pub mod Unique
pub mod Taken
pub mod Joins
pub mod Errors
pub mod Sends
pub mod Less
pub mod Checks
