mod Examples
pub mod Staying
pub mod Paying
pub mod KeepingTrees
