pub mod Journal
pub mod Records
pub mod Replies
pub mod Output
pub mod Laws
