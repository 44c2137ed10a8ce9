pub mod Tree
pub mod Decode
pub mod Numbers
pub mod Weights
pub mod Once
pub mod Postfix
pub mod Numbered
