pub mod Ticking
pub mod Adding
