pub mod Same
pub mod Pairs
pub mod Own
pub mod Walking
pub mod OwnTables
pub mod OwnIters
pub mod OwnStart
