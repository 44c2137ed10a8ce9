pub mod Answers
pub mod Lending
