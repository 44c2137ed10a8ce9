pub mod Recording
pub mod Makers
pub mod Turning
pub mod Tickets
pub mod Replies
pub mod Joining
