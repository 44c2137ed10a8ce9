pub mod Stepping
pub mod NextNames
pub mod Going
pub mod Printable
mod Examples
