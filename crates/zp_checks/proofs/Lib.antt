mod Walking
pub mod Naming
