pub mod Reversing
pub mod Carrying
pub mod CallsMade
pub mod Making
pub mod Crews
pub mod Ending
