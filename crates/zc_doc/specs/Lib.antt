pub mod Refusals
pub mod Reading
pub mod Programs
pub mod Calls
pub mod Setup
pub mod Document
