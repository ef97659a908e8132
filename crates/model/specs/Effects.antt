-- What each rule does to the state; guards stand in Step.
pub mod Begin
pub mod Spawn
pub mod Open
pub mod End
pub mod Kill
pub mod Repair
pub mod Closing
pub mod Deliver
