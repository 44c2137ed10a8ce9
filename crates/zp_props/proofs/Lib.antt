pub mod NoSettings
pub mod Texts
pub mod NativeNames
pub mod SettingLaws
pub mod SettingTexts
mod Examples
