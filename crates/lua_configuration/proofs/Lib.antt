mod Answered
mod Captured
mod Operated
mod Putting
