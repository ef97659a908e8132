pub mod Run
pub mod Lowest
