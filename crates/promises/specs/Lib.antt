pub mod View
pub mod Demand3
pub mod Settling
pub mod SentTag
