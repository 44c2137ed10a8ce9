pub mod Given
pub mod Steps
pub mod Printable
pub mod Ran
pub mod Stopping
pub mod Answer
pub mod LoadResults
