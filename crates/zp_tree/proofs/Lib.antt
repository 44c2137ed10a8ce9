pub mod Places
pub mod Looks
pub mod Rising
pub mod Edits
pub mod FullNames
pub mod Adding
pub mod Changing
pub mod NewPoolLaw
pub mod Clear
pub mod Latest
pub mod Coming
pub mod FirstFound
pub mod NextTags
pub mod Sums
pub mod Found
pub mod Marking
pub mod VerdictTexts
pub mod Depending
pub mod DestroyExamples
mod PromoteExamples
mod RenameExamples
mod SettingExamples
pub mod Passing
pub mod Nearest
mod InheritedExamples
pub mod RecordNames
pub mod ByteOrder
pub mod MakingExamples
