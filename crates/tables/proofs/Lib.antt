pub mod Writes
pub mod Walks
pub mod Changes
pub mod Bits
pub mod Tests
pub mod Below
pub mod Rows
