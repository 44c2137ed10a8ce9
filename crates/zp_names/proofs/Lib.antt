mod ByteKinds
mod Examples
mod FirstFaults
mod Heads
pub mod JoinedNames
pub mod Law
pub mod Marks
pub mod MovedNames
pub mod Moving
mod Places
mod Rests
pub mod ShortNames
