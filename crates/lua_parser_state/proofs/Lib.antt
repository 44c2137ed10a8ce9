pub mod Nodes
pub mod Ordering
pub mod Lists
pub mod Rooms
pub mod Steps
pub mod Ends
