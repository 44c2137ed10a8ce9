pub mod FewFunctions
pub mod Adding
pub mod Lawful
