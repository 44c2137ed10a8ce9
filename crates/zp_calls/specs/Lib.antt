pub mod JsonTexts
pub mod Programs
pub mod Replies
pub mod Names
