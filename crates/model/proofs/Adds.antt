-- What spawn, end and kill add to the work left, and what they do to the tasks.
pub mod Acts
pub mod Kill
pub mod Tasks
