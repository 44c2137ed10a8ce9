pub mod Recordings
pub mod Passes
pub mod Submits
pub mod Collects
pub mod Moves
pub mod Turns
pub mod Closing
pub mod Seating
