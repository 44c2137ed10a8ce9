pub mod Depth
pub mod Shown
pub mod Order
pub mod Gave
