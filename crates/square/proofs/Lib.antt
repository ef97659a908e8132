pub mod Live
pub mod Sums
pub mod Columns
pub mod New
