pub mod Basics
pub mod Starting
pub mod Nexts
pub mod Complete
pub mod Contexts
pub mod Sound
pub mod Steps
pub mod Reached
pub mod Endings
pub mod Ending
pub mod Runs
pub mod Decides
pub mod Words
mod Examples
mod Levels
mod LevelTokens
mod Programs
pub mod Lines
pub mod Loose
