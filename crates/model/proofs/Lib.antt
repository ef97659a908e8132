pub mod Facts
pub mod Steps
pub mod Keeps
pub mod Promises
pub mod Reached
pub mod Kept
pub mod Adds
pub mod Falls
