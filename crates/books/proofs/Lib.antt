pub mod Places
pub mod Climb
