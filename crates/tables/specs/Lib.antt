pub mod Bytes
pub mod Bits
pub mod Walks
pub mod Layout
pub mod Numbers
