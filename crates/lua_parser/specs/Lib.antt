pub mod Follows
pub mod Parsing
