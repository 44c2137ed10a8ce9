pub mod SameParts
pub mod Decoding
pub mod Growing
pub mod LabelsOnly
pub mod PlacesBelow
pub mod EachOnce
pub mod Numbering
mod Examples
