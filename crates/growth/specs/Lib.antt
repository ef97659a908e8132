pub mod Tree
pub mod Grown
