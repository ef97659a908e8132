pub mod Use
pub mod Looks
