pub mod Orphans
pub mod Marks
