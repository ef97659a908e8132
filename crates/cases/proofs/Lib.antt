pub mod Runs
pub mod CasesHold
pub mod CoresBreak
