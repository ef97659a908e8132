pub mod Ghosts
