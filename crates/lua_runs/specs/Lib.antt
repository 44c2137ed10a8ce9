pub mod Weights
pub mod Endings
pub mod Serving
pub mod Standing
