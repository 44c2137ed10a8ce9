pub mod Endings
pub mod Asking
pub mod Advancing
pub mod Starting
