pub mod Signs
pub mod Kinds
pub mod Values
pub mod Operators
pub mod Grammar
pub mod Pushdown
pub mod Parses
pub mod Deciding
