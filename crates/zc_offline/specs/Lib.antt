pub mod Words
pub mod LoadErrors
pub mod LoadResults
pub mod Status
pub mod FaultLines
pub mod Replay
pub mod Headline
