mod Ordered
pub mod NoFloat
pub mod Telling
