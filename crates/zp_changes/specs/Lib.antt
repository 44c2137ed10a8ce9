pub mod Replacements
pub mod PromotionLaws
pub mod Renaming
pub mod RenameLaws
pub mod PropertyLaws
pub mod Deferral
