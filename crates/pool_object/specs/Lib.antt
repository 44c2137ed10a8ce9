pub mod Pool
pub mod PoolLaws
pub mod Histories
