pub mod Answering
pub mod Naming
pub mod Existing
pub mod Syncing
pub mod Paying
