mod Cells
mod Walks
mod Areas
mod Flat
pub mod Seen
pub mod Rows
pub mod Slots
pub mod BookCells
mod BookBytes
pub mod WholeBooks
pub mod NewBooks
pub mod LocalCells
pub mod BookTests
mod Tests
mod Keeps
mod BookWalk
pub mod KillWalks
pub mod Adopt
pub mod TieSpawn
pub mod TieRepair
pub mod TieDeliver
pub mod TieEnd
pub mod TieClosing
pub mod TiePublish
pub mod TieBegin
pub mod Bytes
pub mod Held
pub mod Moved
pub mod StepSpawn
pub mod StepEnd
pub mod StepRepair
pub mod StepDeliver
pub mod StepStore
pub mod Steps
pub mod Quiet
mod MessageBytes
mod TaskBytes
mod RepairBytes
mod DeliverBytes
pub mod StepBytes
pub mod Good
mod Tags
mod Named
mod SoundFits
mod SoundSlots
pub mod SoundTables
mod WantedDeliver
mod Wanted
pub mod Never
mod Places
pub mod Session
pub mod ActsMove
pub mod ActsTaken
mod QuietCells
pub mod Demand3Holds
mod StirsNoise
mod StirsBooks
pub mod Stirs
pub mod Falls
pub mod SentTag
