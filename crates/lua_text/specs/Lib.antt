pub mod Positions
pub mod Letters
pub mod Repeating
pub mod Finding
