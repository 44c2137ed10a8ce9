pub mod Numbers
pub mod Adding
pub mod Holding
