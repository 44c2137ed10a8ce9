pub mod CodeOf
pub mod SameCode
