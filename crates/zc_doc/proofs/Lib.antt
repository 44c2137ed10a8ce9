pub mod Unknown
pub mod Items
pub mod Named
mod Examples
