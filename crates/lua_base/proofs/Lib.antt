pub mod Later
pub mod Storing
mod AddingValues
mod AddingTables
mod AddingCalls
mod Examples
