pub mod Ranges
pub mod Spelling
pub mod Fronts
pub mod Lines
pub mod Trees
pub mod Cut
