pub mod Records
pub mod Inside
