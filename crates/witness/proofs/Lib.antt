pub mod Passes
pub mod Witnessed
pub mod SameWords
pub mod CoresPass
