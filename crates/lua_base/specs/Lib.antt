pub mod Functions
pub mod OfValues
pub mod OfTables
pub mod OfCoroutines
pub mod BaseCalls
