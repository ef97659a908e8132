pub mod Tree
pub mod Plan
pub mod Reading
