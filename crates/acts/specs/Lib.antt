pub mod First
pub mod Acts
