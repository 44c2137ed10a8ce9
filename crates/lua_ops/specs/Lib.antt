pub mod Answers
pub mod Kinds
pub mod Texts
pub mod Working
