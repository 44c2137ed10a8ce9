pub mod Settings
pub mod UserProperties
pub mod Lines
pub mod Properties
pub mod ReadSetting
