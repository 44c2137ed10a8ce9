pub mod Threads
pub mod Hosts
