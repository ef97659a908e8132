-- Demand 3 on the model: release, quiet, progress; and why no refusal 9 is given: every wanted status is found, no count leaves 0 to 255.
pub mod Release
pub mod Stays
pub mod Quiet
pub mod Progress
pub mod Wanted
pub mod Ranges
pub mod Stirs
