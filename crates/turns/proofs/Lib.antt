pub mod Choice
pub mod First
pub mod Records
pub mod Taken
pub mod Order
