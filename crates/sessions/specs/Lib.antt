pub mod Serving
pub mod Workers
pub mod Runs
