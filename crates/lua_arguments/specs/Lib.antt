pub mod Answering
pub mod Spending
pub mod Arguments
pub mod BadArguments
pub mod Extending
