pub mod Powers
pub mod Concats
pub mod Wrapping
pub mod Ticking
pub mod Digits
