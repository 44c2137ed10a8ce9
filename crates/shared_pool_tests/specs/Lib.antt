pub mod Requests
pub mod RequestLaws
pub mod Working
