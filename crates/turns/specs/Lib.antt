pub mod Choice
pub mod Turn
pub mod Numbered
pub mod Played
