pub mod Schedule
pub mod ReleaseHalf
