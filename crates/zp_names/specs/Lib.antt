pub mod Names
pub mod NameFaults
pub mod NameParts
pub mod ErrorNumbers
pub mod NameMoves
